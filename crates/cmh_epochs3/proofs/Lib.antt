mod Fronts
mod Chaining
mod Splitting
