mod Addresses
mod ExchangesRows
mod Greatest
mod Rest
