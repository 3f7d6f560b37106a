mod Named
mod Porting
