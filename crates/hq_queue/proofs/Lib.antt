pub mod SameAddresses
