mod ObjectResults
mod PrintResults
mod Needed
