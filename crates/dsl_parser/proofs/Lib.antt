mod Blocks
mod PathForests
mod StartForms
mod Steps
mod Wholes
