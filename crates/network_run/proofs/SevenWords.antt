-- No line has more than four words that mean something, comments apart: seven tell that there are too many.
use Rattle.std.proofs.Common.{◌≡◌, ℕ, ◌+◌, List, [], ◌∷◌, take, refl, sym, ◌∙◌, ap}
use Rattle.std.specs.Prelude.{Result, Ok, Err, Option, Some, None, if◌then◌else◌}
use Rattle.lexer.specs.Words.{words_of, begins_comment}
use Rattle.lexer.specs.declared.refusal.Refusal.{Refusal}
use Rattle.lexer.specs.Outcome.{◌>>=◌, then_lines, refusal_at}
use Rattle.network_machine.specs.declared.moves.Move.{Move}
use Rattle.network_machine.specs.declared.moves.Move.TheVariants as move
use Rattle.network_run.specs.declared.reason.MoveKeyword.{MoveKeyword}
use Rattle.network_run.specs.declared.reason.MoveKeyword.TheVariants as key
use Rattle.network_run.specs.declared.reason.RunReason.{RunReason}
use Rattle.network_run.specs.Reasons.{move_keyword_of}
use Rattle.network_run.specs.Spelled.{spelled_packet, spelled_channel, spelled_move}
use Rattle.network_run.specs.Moved.{RunSpec, with_run_move, after_move_word, after_move_words, run_from}

packet_six : (ws : List (List ℕ)) → spelled_packet (take 6 ws) ≡ spelled_packet ws
packet_six [] = refl
packet_six (a ∷ []) = refl
packet_six (a ∷ b ∷ []) = refl
packet_six (a ∷ b ∷ c ∷ []) = refl
packet_six (a ∷ b ∷ c ∷ d ∷ more) = refl

channel_six : (k : MoveKeyword) (ws : List (List ℕ)) → spelled_channel k (take 6 ws) ≡ spelled_channel k ws
channel_six k [] = refl
channel_six k (a ∷ []) = refl
channel_six k (a ∷ b ∷ more) = refl

one_six : (k : MoveKeyword) (f : ℕ → Move) (ws : List (List ℕ))
    → (spelled_channel k (take 6 ws) >>= λ x. Ok (f x)) ≡ (spelled_channel k ws >>= λ x. Ok (f x))
one_six k f ws = ap (λ (o : Result ℕ RunReason). o >>= λ x. Ok (f x)) (channel_six k ws)

move_six : (k : MoveKeyword) (ws : List (List ℕ)) → spelled_move k (take 6 ws) ≡ spelled_move k ws
move_six key.Send ws = packet_six ws
move_six key.More ws = one_six key.More (λ x. move.More x) ws
move_six key.Take ws = one_six key.Take (λ x. move.Take x) ws
move_six key.Put ws = one_six key.Put (λ x. move.Put x) ws
move_six key.Accept ws = one_six key.Accept (λ x. move.Accept x) ws
move_six key.Credit ws = one_six key.Credit (λ x. move.Credit x) ws

word_six : (r : RunSpec) (n : ℕ) (k : Option MoveKeyword) (ws : List (List ℕ)) → after_move_word r n k (take 6 ws) ≡ after_move_word r n k ws
word_six r n None ws = refl
word_six r n (Some k) ws = ap (λ (o : Result Move RunReason). o >>= λ m. Ok (with_run_move r n m)) (move_six k ws)

words_seven : (r : RunSpec) (n : ℕ) (ws : List (List ℕ)) → after_move_words r n (take 7 ws) ≡ after_move_words r n ws
words_seven r n [] = refl
words_seven r n (w ∷ ws) =
    ap (λ (o : Result RunSpec RunReason). if begins_comment w then Ok r else o) (word_six r n (move_keyword_of w) ws)

-- one more line of a run text
pub run_step : (n : ℕ) (r new : RunSpec) (line : List ℕ) (rest after ws : List (List ℕ)) (all : Result RunSpec (Refusal RunReason))
    → rest ≡ line ∷ after → ws ≡ take 7 (words_of line) → after_move_words r n ws ≡ Ok new → run_from r n rest ≡ all
    → run_from new (n + 1) after ≡ all
run_step n r new line rest after ws all is seven made so_far =
    let here : after_move_words r n (words_of line) ≡ Ok new =
    sym (words_seven r n (words_of line)) ∙ ap (after_move_words r n) (sym seven) ∙ made in
    sym (ap (λ o. then_lines n o (λ next. run_from next (n + 1) after)) here) ∙ sym (ap (run_from r n) is) ∙ so_far

-- a bad line of a run text
pub run_fault : (n : ℕ) (r : RunSpec) (line : List ℕ) (rest after ws : List (List ℕ)) (all : Result RunSpec (Refusal RunReason)) (e : RunReason)
    → rest ≡ line ∷ after → ws ≡ take 7 (words_of line) → after_move_words r n ws ≡ Err e → run_from r n rest ≡ all
    → all ≡ Err (refusal_at n e)
run_fault n r line rest after ws all e is seven made so_far =
    let here : after_move_words r n (words_of line) ≡ Err e =
    sym (words_seven r n (words_of line)) ∙ ap (after_move_words r n) (sym seven) ∙ made in
    sym so_far ∙ ap (run_from r n) is ∙ ap (λ o. then_lines n o (λ next. run_from next (n + 1) after)) here
