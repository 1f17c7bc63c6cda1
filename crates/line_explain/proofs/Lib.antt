mod Reaching
mod Behind
mod Naming
