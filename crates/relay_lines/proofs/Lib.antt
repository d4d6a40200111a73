mod Ends
mod Firsts
mod Told
