-- The laws of rounded sums that the shorter ways rest on: Sterbenz's lemma, FastTwoSum, and four equal terms.
pub mod Sterbenz
pub mod FastTwoSum
pub mod FourTerms
pub mod EqualTerms
pub mod Fourfold
