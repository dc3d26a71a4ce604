-- The definitions of `immersion_heater`: the offer, the supply, and one turn (01, Heat; Supply and switch-off; Turn).
pub mod Offer
pub mod Supply
pub mod Turn
