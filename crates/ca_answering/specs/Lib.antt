pub mod ClassTallies
pub mod OneClass
