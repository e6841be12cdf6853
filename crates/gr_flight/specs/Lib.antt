pub mod SendersThere
pub mod StandsOnce
