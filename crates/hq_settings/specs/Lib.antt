pub mod Troubles
pub mod Seen
pub mod Settings
pub mod SettingUp
pub mod Steps
pub mod Builtin
pub mod Checked
