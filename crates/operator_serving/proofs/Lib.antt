mod ServedOperator
mod Looks
