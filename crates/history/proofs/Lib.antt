pub use Rattle.fabric_rule.proofs.Ends
pub use Rattle.fabric_rule.proofs.Groups
pub use Rattle.fabric_rule.proofs.Runs
