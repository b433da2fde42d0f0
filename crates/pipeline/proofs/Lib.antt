mod Turns
mod Draws
mod Sounds
mod Promise
