mod Spots
mod Rivals
mod Splits
