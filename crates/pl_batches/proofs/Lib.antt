mod Along
mod Lists
mod Passing
mod Texts
