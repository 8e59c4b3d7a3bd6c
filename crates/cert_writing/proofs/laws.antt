pub mod PlainValues
