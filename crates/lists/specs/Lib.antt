pub mod Lists
pub mod Recipes
