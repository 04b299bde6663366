-- What the desk program hands to `write`.
mod Printing
