-- Deltas written as value lists: what is written means the delta, and is short.
use Rattle.std.proofs.Common.{◌≡◌, ℕ, zero, suc, ◌+◌, ◌*◌, ◌<◌, ◌≤◌, Bool, true, false, leb, List}
use Rattle.std.proofs.Common.{[], ◌∷◌, ◌++◌, length, replicate, decimal, sym, refl, ap, subst}
use Rattle.std.proofs.Common.{append_assoc, append-nil, arith}
use Rattle.std.specs.List.{AllByRecursion}
use Rattle.std.proofs.lemmas.Fmt.{length-decimal-le_succ}
use Rattle.std.proofs.lemmas.List.{length-append, length-drop, length-replicate}
use Rattle.std.proofs.lemmas.Bool.{cond_both, and_left, leb-false}
use Rattle.std.proofs.lemmas.Grind.{flat_map-append}
use Rattle.row.specs.Limits.{field_limit, text_limit}
use Rattle.row.specs.Rows.{Change, same, becomes, null, value}
use Rattle.tlcp.specs.Escapes.{Decodes}
use Rattle.tlcp.specs.Lists.{each_piped, has_pipe, NoPipes, Means, unchanged, run, nothing, empty}
use Rattle.tlcp.specs.Lists.{content, Row, done, next, run_values, text_value, written_values}
use Rattle.tlcp.specs.Lists.{written_list, Allowed, ReadsWritten, WrittenShort}
use Rattle.tlcp.specs.Written.{field_room}
use Rattle.tlcp.proofs.Spelling.{reads-spelled}
use Rattle.tlcp.proofs.Encoded.{has-decimal, has-encode}
use Rattle.tlcp.proofs.Unescaped.{plain-pipe, decodes-encode, encode-content, length-encode}

-- one more of a run stands before or behind it
replicate-through :
    {X : Type 0} (n : ℕ) (x : X) (xs : List X)
    → replicate n x ++ (x ∷ xs) ≡ x ∷ (replicate n x ++ xs)
replicate-through zero x xs = refl
replicate-through (suc n) x xs = ap (λ l. x ∷ l) (replicate-through n x xs)

text-apart : (t : List ℕ) → AllByRecursion (λ b. b < 256) t → has_pipe (text_value t) ≡ false
text-apart [] bytes = refl
text-apart (b ∷ t) bytes = has-encode 124 refl refl plain-pipe (b ∷ t) bytes

module _ (allowed : List ℕ → Bool) where
  -- the values mean d and can stand between pipes
  record Clear (vs : List (List ℕ)) (d : List Change) : Type 0 where
    means : Row allowed vs d
    apart : NoPipes vs

  clear_none : Clear [] []
  clear_none = record { means = done; apart = tt }

  clear_next :
      {v : List ℕ} {vs : List (List ℕ)} {d e : List Change} → Means allowed v d → has_pipe v ≡ false
      → Clear vs e → Clear (v ∷ vs) (d ++ e)
  clear_next h apart rest = record { means = next h rest.means; apart = (apart, rest.apart) }

  clear-append :
      {vs ws : List (List ℕ)} {d e : List Change} → Clear vs d → Clear ws e
      → Clear (vs ++ ws) (d ++ e)
  clear-append h rest =
      record { means = joins h.means rest.means; apart = apart-append _ _ h.apart rest.apart }
    where
      joins :
          {vs ws : List (List ℕ)} {d e : List Change} → Row allowed vs d → Row allowed ws e
          → Row allowed (vs ++ ws) (d ++ e)
      joins done r = r
      joins (next m q) r = rw append_assoc (next m (joins q r))

      apart-append : (vs ws : List (List ℕ)) → NoPipes vs → NoPipes ws → NoPipes (vs ++ ws)
      apart-append [] ws a b = b
      apart-append (v ∷ vs) ws a b = (a.0, apart-append vs ws a.1 b)

  clear-run : (n : ℕ) → n ≤ field_limit → Clear (run_values n) (replicate n same)
  clear-run n few =
      cond_both (leb n 3) _ _ (λ vs. Clear vs (replicate n same)) (λ _. empties n)
      (λ e.
      let many = leb-false n 3 e in
      subst (Clear ((94 ∷ decimal n) ∷ [])) (append-nil (replicate n same))
      (clear_next (run (omega arith) few) (has-decimal 124 refl refl n (omega arith)) clear_none))
    where
      empties : (k : ℕ) → Clear (replicate k []) (replicate k same)
      empties zero = clear_none
      empties (suc k) = clear_next unchanged refl (empties k)

  text-means :
      (t : List ℕ) → allowed t ≡ true → AllByRecursion (λ b. b < 256) t
      → Means allowed (text_value t) (becomes (value t) ∷ [])
  text-means [] e bytes = empty e
  text-means (b ∷ t) e bytes =
      let c = encode-content b t in
      subst (λ s. Means allowed s (becomes (value (b ∷ t)) ∷ [])) (sym c.is)
      (content c.no-caret (and_left _ _ c.no-hash) (and_left _ _ c.no-dollar) (subst (λ s. Decodes s (b ∷ t)) c.is (decodes-encode (b ∷ t) bytes)) e)

  -- behind a run of n same
  clear-written :
      ((t : List ℕ) → allowed t ≡ true → AllByRecursion (λ b. b < 256) t)
      → (d : List Change) (n : ℕ) → n + length d ≤ field_limit → AllByRecursion (Allowed allowed) d
      → Clear (written_values n d) (replicate n same ++ d)
  clear-written bytes [] n few all = rw append-nil (clear-run n (omega arith))
  clear-written bytes (same ∷ d) n few all =
      rw replicate-through (clear-written bytes d (suc n) (omega arith) all.1)
  clear-written bytes (becomes null ∷ d) n few all =
      clear-append (clear-run n (omega arith)) (clear_next nothing refl (clear-written bytes d 0 (omega arith) all.1))
  clear-written bytes (becomes (value t) ∷ d) n few all =
      let ok = bytes t all.0 in
      clear-append (clear-run n (omega arith)) (clear_next (text-means t all.0 ok) (text-apart t ok) (clear-written bytes d 0 (omega arith) all.1))

-- a list of some changes has some values
pub written-some : (d : List Change) (n : ℕ) → 1 ≤ n + length d → 1 ≤ length (written_values n d)
written-some [] n some =
    cond_both (leb n 3) _ _ (λ vs. 1 ≤ length vs) (λ _. rw length-replicate (omega arith)) (λ _. omega arith)
written-some (same ∷ d) n some = written-some d (suc n) (omega arith)
written-some (becomes null ∷ d) n some = simp length-append (omega arith)
written-some (becomes (value t) ∷ d) n some = simp length-append (omega arith)

pub reads-written : ReadsWritten
reads-written allowed bytes d some few all =
    let h = clear-written allowed bytes d 0 (omega arith) all in
    (reads-spelled allowed (length d) (written_list d) d few).1
    (record {
      parts =
          written_values 0 d;
      some = written-some d 0 (omega arith);
      apart = h.apart;
      whole = refl;
      means = h.means;
    }) refl

-- empty values with a pipe before each
pub pipes : (k : ℕ) → each_piped (replicate k []) ≡ replicate k 124
pipes zero = refl
pipes (suc k) = ap (λ l. 124 ∷ l) (pipes k)

pub short-run : (n : ℕ) → n ≤ field_limit → length (each_piped (run_values n)) ≤ field_room * n
short-run n few =
    cond_both (leb n 3) _ _ (λ vs. length (each_piped vs) ≤ field_room * n)
    (λ _. omega (arith, ap length (pipes n), length-replicate {A = ℕ} n 124))
    (λ e. simp length-append (omega (arith, leb-false n 3 e, length-decimal-le_succ n (omega arith))))

pub length-text : (t : List ℕ) → length t ≤ text_limit → length (text_value t) ≤ 3 * text_limit
length-text [] h = omega arith
length-text (b ∷ t) h = omega (arith, length-encode (b ∷ t))

short :
    (allowed : List ℕ → Bool) → ((t : List ℕ) → allowed t ≡ true → length t ≤ text_limit)
    → (d : List Change) (n : ℕ) → n + length d ≤ field_limit → AllByRecursion (Allowed allowed) d
    → length (each_piped (written_values n d)) ≤ field_room * (n + length d)
short allowed small [] n few all = omega (arith, short-run n (omega arith))
short allowed small (same ∷ d) n few all =
    omega (arith, short allowed small d (suc n) (omega arith) all.1)
short allowed small (becomes null ∷ d) n few all =
    simp (flat_map-append, length-append) (omega (arith, short-run n (omega arith), short allowed small d 0 (omega arith) all.1))
short allowed small (becomes (value t) ∷ d) n few all =
    simp (flat_map-append, length-append) (omega (arith, short-run n (omega arith), length-text t (small t all.0), short allowed small d 0 (omega arith) all.1))

pub written-short : WrittenShort
written-short allowed small d some few all =
    simp length-drop (omega (arith, short allowed small d 0 (omega arith) all))
