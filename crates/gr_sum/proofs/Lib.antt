pub mod SeedBits
