mod Numbers
mod Taken
