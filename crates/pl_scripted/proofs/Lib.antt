mod Each
mod Alone
