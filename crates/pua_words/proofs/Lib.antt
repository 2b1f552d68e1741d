mod Meeting
mod ClapFinds
mod Meaning
mod Numbers
