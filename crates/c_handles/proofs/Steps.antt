-- The names that the walks of this crate cite.
pub use Rattle.std.specs.Prelude.{Bool, true, false}
pub use Rattle.std.proofs.VecSteps.Shapes.{after}
pub use Rattle.std.proofs.Common.{◌≡◌, List, [], ◌∷◌, refl, sym, ap, ◌∙◌}
pub use Rattle.std.proofs.raw_atomic.Walks.{proved}
pub use base.Fraction.{full_share}
pub use base.Logic.{id⊢, ent}
pub use base.Fml.{Fml, ftrue, fsep, flft}
pub use mir.Syntax.{named}
pub use mir.Val.{Val, vunit}
pub use contract.Monad.{fact, fact_i}
pub use contract.Running.{tables}
pub use types.Kit.{‵, raw, ◌⊛◌, some, later, at_ret, ◌$◌, ◌∵◌, !, qed, done, by, move, keep, drop, use0, use1, split, join, fsplit, fsplit3, fjoin, feq_i}
pub use types.Kit.{feq_l, pick, await, rewrite, suffices, frame, group}
pub use types.Run.{enter, of_opd, unit_lit, true_lit, addr, load, stop, fld, no_more, and_then, assigns, first, blocks, exec, returns}
pub use types.ByLocal.{alloc_all, pass_all, free_all, look_at, get, through, sets, sets_last, lands_as, env}
pub use types.Part.{whole, sub, look_in}
pub use denote.Builtin.{bool}
pub use denote.Exit.{yes}
pub use denote.Laws.{shows}
pub use denote.Plain.{bool_Makes}
pub use denote.RawPtr.{Ptr, RawPtr, block_ptr, lies_at, in_a_block, rawptr_vals, rawptr_Lawful, rawptr_Makes}
pub use denote.Memory.{cell_at}
pub use denote.Ref.{MutRef, mut_vals, mut_Tells}
pub use denote.Signature.{plain}
pub use denote.Steps.{nothing, owned, opens, closes, heard, peeks, only}
pub use denote.Triple.Call.{calls_at}
pub use denote.Triple.Clauses.{lasts}
pub use denote.Triple.Spec.{triple_of}
pub use denote.Triple.Walked.{Stays, walk_of, says, stay_dropped, Goes-dropped, stay_ref, Goes-ref, Goes-spent_ref, ends_at}
pub use denote.Triple.Table.{framed}
