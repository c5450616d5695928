-- What holds of customers, for the crates above.
pub use Rattle.hq_kept.specs.Customers.{has_key, has_name, names_apart, keys_apart, are_customers}
pub use Rattle.hq_kept.specs.Customers.{is_same_text}
