mod Agreeing
mod Changes
mod Marks
