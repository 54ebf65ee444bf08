-- What holds of processors' tags and followers in a run.
use Rattle.std.specs.Prelude.{◌≡◌, ◌⊎◌, ℕ, List, Some, slice_get}
use Rattle.torus.specs.declared.step.OpId.{OpId}
use Rattle.packet.specs.declared.kinds.Request.{Request}
use Rattle.packet.specs.declared.kinds.Response.{Response}
use Rattle.script_lines.specs.declared.line.Line.{Line}
use Rattle.tag_table.specs.Tags.{out_count}
use Rattle.one_order.specs.Scripts.{Invocation}
use Rattle.one_order.specs.Following.{Following, ShowsPast}
use Rattle.one_order.specs.Observed.{Run}
use Rattle.one_order.specs.Flight.{Flight, processor_at}
use Rattle.one_order.specs.AbstractScripts.{AreInvocationsOf}

-- a request of processor p under a tag is issued and not served
abbrev pub AwaitsRequest : Flight → ℕ → ℕ → Type 0
AwaitsRequest f p tag = (j : ℕ) × (r : Request) × (slice_get f.asked j ≡ Some r) × (r.source ≡ p)
    × (r.tag.0 ≡ tag)

-- a response to processor p under a tag is made and not taken
abbrev pub AwaitsReply : Flight → ℕ → ℕ → Type 0
AwaitsReply f p tag = (j : ℕ) × (r : Response) × (slice_get f.told j ≡ Some r) × (r.destination ≡ p)
    × (r.tag.0 ≡ tag)

-- Who holds a tag has its request or the response to it on the way; and as many tags are out as
-- operations await an answer.
pub record HavePackets (f : Flight) : Type 0 where
  pub pending : (p tag : ℕ) (id : OpId) → slice_get (processor_at f p).tags tag ≡ Some (Some id)
      → AwaitsRequest f p tag ⊎ AwaitsReply f p tag
  pub waiting : (p : ℕ) → (processor_at f p).following.waiting ≡ out_count (processor_at f p).tags

-- a follower of processor p shows the operations that the processor issued in the first n steps of
-- a run, with their answers (a reachable state and its history)
pub record ShowsOperations (run : Run) (n p : ℕ) (lines : List Line) (f : Following) : Type 0 where
  pub past : List Invocation
  pub are : AreInvocationsOf run n p past
  pub shows : ShowsPast lines past f
