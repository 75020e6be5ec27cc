pub mod Drive
pub mod Shown
