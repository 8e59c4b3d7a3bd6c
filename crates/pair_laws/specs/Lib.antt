pub mod FirstWindows
