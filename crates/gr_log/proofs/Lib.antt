mod Logs
mod Reading
mod Worked
mod Written
