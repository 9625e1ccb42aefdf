mod Rows
mod Formats
mod Judging
mod Serving
mod Energy
