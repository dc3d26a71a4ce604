-- The definitions and laws of `heater_switches`: the two switches of a heater (01, Switch-on; Supply and switch-off).
pub mod Switch
pub mod SwitchLaws
