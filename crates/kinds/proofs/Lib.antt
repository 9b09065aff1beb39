mod Later
mod Picking
