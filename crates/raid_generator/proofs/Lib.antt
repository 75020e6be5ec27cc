mod Lines
mod Transfers
