pub mod PlateLists
mod Written
