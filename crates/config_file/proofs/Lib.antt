mod Pieces
mod HandedOn
