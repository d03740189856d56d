mod Quiet
mod SoundForms
mod Stops
