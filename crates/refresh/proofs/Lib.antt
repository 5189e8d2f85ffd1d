mod Closing
mod Leaving
mod Striking
mod Standing
mod Telling
mod Shelves
