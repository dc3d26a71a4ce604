-- What the code keeps of a round, and a layer that joins the running group (01, Mix).
pub mod Running
