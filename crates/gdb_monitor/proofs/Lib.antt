mod Decimals
mod Hexadecimals
mod Returning
