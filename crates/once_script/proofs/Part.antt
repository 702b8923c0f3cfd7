-- Record and log fall into parts, one for each input.
pub mod Tells
pub mod Needs
pub mod Apart
pub mod Left
pub mod Budget
pub mod Beginnings
pub mod Told
pub mod Belonging
pub mod Ample
