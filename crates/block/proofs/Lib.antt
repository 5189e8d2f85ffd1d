mod Ascents
mod Composing
mod Gathering
mod Placing
mod Running
