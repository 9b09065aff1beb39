mod Trials
mod Turning
