mod Fronts
mod Joined
mod OnTheWay
mod Parts
mod ReadSoFar
