mod Decided
mod Worked
