mod Chain
mod Filling
mod OneTarget
mod Running
mod Watching
mod Steps
