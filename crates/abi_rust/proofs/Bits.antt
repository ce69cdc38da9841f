-- What masks leave of a number.
pub use Rattle.std.proofs.lemmas.Nat.{and_mask}
