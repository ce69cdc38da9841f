-- the parts of a type, and where runs begin
pub mod Starts
-- runs of bytes, one by one
pub mod Numbers
-- the map as text
pub mod Map
-- names of runs, and what these keep
pub mod Covering
pub mod Runs
