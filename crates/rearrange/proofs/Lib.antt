-- What the call mix cites of an array with more places than it has layers.
pub mod Array
