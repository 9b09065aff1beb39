mod Lifts
mod Joining
mod Sessions
