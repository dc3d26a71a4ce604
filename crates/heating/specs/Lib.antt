-- The definitions of `heating`: heat, and `calc_final_temps` (01, Heat; Losses and limit).
pub mod Heat
pub mod FinalTemps
