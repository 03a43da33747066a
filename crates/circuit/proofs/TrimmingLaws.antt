-- The loops that renumber references and write the trimmed table. Assumes nothing.
use mathlib.Core.Path.{◌≡◌, refl, sym, ap, ap₂, ◌∙◌}
use mathlib.Core.List.{List, [], ◌∷◌, ◌++◌, map}
use Prim.Native.Nat.{ℕ, ◌+◌, ◌*◌, ◌≤◌, ◌<◌}
use native.Mathlib.Nat.{add-zero, not-suc-le-zero}
use native.Mathlib.Decide.{ℕ_discrete}
use native.Mathlib.Omega.{arith}
use lib.Dec.{ltb}
use lib.ListN.{length, take, drop, get_or, set, length-set, length-append, length-map}
use lib.Seq.{sets, get_or-set_same, get_or-set_other, length-take-le}
use borrow.Author.Tests.{lt-ltb, le-ltb}
use Rattle.lists.proofs.Stores.{sets-append}
use Rattle.lists.proofs.Appended.{Appended, appended-none, appended-more, appended-same, appended-all}
use Rattle.lines.specs.Calls.{over}
use Rattle.circuit.specs.Circuit.{Gate, closing_kind, first_gate, no_gate}
use Rattle.circuit.specs.Table.{inputs, gates, outputs, refs, starts, gates_from, table_end, gate_lines, closing_line, decode, encode_lines}
use Rattle.circuit.specs.ReverseDepth.{reverse_depths}
use Rattle.circuit.specs.Trim.{rank, keep_gates, is_kept, new_number, renumbered_gate, trimmed_gates, trimmed_outputs, trim_of}
use Rattle.circuit.proofs.TableLaws.{gate-next, gates-length, output-next, outputs-length}
use Rattle.circuit.proofs.StartRunLaws.{run_fits}
use Rattle.circuit.proofs.EncodingLaws.{encode-length}
use Rattle.circuit.proofs.BufferLaws.{copied-counted}
use Rattle.circuit.proofs.RankLaws.{rank-kept, rank-gone, rank-id, keep-length}
use Rattle.circuit.proofs.ReverseDepthLaws.{kept_low}
use Rattle.circuit.proofs.LoopLaws.{kept_read, trim-lines, append-kept, append-gone, append-gates-end, append-closing, append-closings-end}

-- ---- the new numbers

-- the first n references have theirs
abbrev pub Named : (t names : List ℕ) (n : ℕ) → Type 0
Named t names n = (v : ℕ) → v < n → get_or names v 0 ≡ new_number (decode t) v

pub named_none : (t names : List ℕ) → Named t names 0
named_none t names v h = absurd (not-suc-le-zero h)

pub named_more : (t names : List ℕ) (n x : ℕ) → Named t names n → n < length names → x ≡ new_number (decode t) n → Named t (set names n x) (n + 1)
named_more t names n x f h e v l =
    elim (ℕ_discrete v n) [
      | yes q ↦ rw (q, get_or-set_same names n x 0 h) e
      | no q ↦ get_or-set_other names n v x 0 q ∙ f v (omega arith)
    ]

-- constants and inputs keep their numbers
pub input-name : (t : List ℕ) (v : ℕ) → v < first_gate (inputs t) → v ≡ new_number (decode t) v
input-name t v h = sym (rank-id (is_kept (decode t)) v (λ r l. kept_low (decode t) r (omega arith)))

-- ---- lines stored one after the other

-- gate i's line with the new numbers of its operands
pub gate-stores : (t names d d' : List ℕ) (at i : ℕ) → Named t names (first_gate (inputs t) + i)
    → (g : Gate) → (g.left < first_gate (inputs t) + i) × (g.right < first_gate (inputs t) + i) → g ≡ get_or (decode t).gates i no_gate → d' ≡ sets d at (g.kind ∷ get_or names g.left 0 ∷ get_or names g.right 0 ∷ [])
    → d' ≡ sets d at (encode_lines (renumbered_gate (decode t) i ∷ []))
unfolding encode_lines
gate-stores t names d d' at i r g l q e =
    e ∙ ap₂ (λ a b. sets d at (g.kind ∷ a ∷ b ∷ [])) (r g.left l.0) (r g.right l.1)
    ∙ ap (λ y. sets d at (y.kind ∷ new_number (decode t) y.left ∷ new_number (decode t) y.right ∷ [])) q

-- ---- the gate lines, up to gate i

-- the lines of the gates before gate i that are kept, of which there are `kept`, and the new numbers up to that gate's
pub record GatesTo (t names₀ names d₀ d : List ℕ) (kept i : ℕ) : Type 0 where
  pub few : kept ≤ i
  pub follows : first_gate (inputs t) + kept ≡ new_number (decode t) (first_gate (inputs t) + i)
  pub named : Named t names (first_gate (inputs t) + i)
  pub names-long : length names ≡ length names₀
  pub lines :
      Appended (encode_lines (trimmed_gates (decode t))) d₀ (gates_from t)
      (encode_lines (keep_gates (is_kept (decode t)) (first_gate (inputs t) + i) (drop i (gate_lines t)))) d (gates_from t + 3 * kept)

module _ (t names₀ d₀ : List ℕ) where
  pub gates-none : Named t names₀ (first_gate (inputs t)) → GatesTo t names₀ names₀ d₀ d₀ 0 0
  gates-none f =
      record {
        few = omega arith;
        follows = rw add-zero (sym (rank-id (is_kept (decode t)) (first_gate (inputs t)) (kept_low (decode t))));
        named = rw add-zero f;
        names-long = refl;
        lines = appended-none _ d₀ (gates_from t) _ (gates_from t + 3 * 0) (ap (λ k. encode_lines (keep_gates (is_kept (decode t)) k (gate_lines t))) (add-zero (first_gate (inputs t)))) (omega arith);
      }

  module _ (names d : List ℕ) (kept i : ℕ) (s : GatesTo t names₀ names d₀ d kept i) where
    pub gates-all : i ≤ gates t → gates t ≤ i
        → (kept ≡ length (trimmed_gates (decode t))) × Named t names (refs t) × (d ≡ sets d₀ (gates_from t) (encode_lines (trimmed_gates (decode t))))
    gates-all l h =
        let e : i ≡ gates t = omega arith in
        let a = appended-all _ d₀ (gates_from t) _ d (gates_from t + 3 * kept) s.lines
        (append-gates-end (is_kept (decode t)) (first_gate (inputs t)) (gate_lines t) i (omega (arith, gates-length t))) in
        (omega (arith, a.1, encode-length (trimmed_gates (decode t))), rw e at s.named, a.0)

    -- gate i, of reference v
    module _ (u : List ℕ) (e : take (refs t) u ≡ reverse_depths (decode t)) (fits : refs t ≤ length names₀) (h : i < gates t) (v : ℕ) (n : v ≡ first_gate (inputs t) + i) (x : ℕ) (p : x ≡ first_gate (inputs t) + kept) where
      next : new_number (decode t) (first_gate (inputs t) + i + 1) ≡ new_number (decode t) (first_gate (inputs t) + (i + 1))
      next = ap (new_number (decode t)) (omega arith)

      renamed : Named t (set names v x) (first_gate (inputs t) + (i + 1))
      renamed =
          let q : first_gate (inputs t) + i + 1 ≡ first_gate (inputs t) + (i + 1) = omega arith in
          rw (n, ← q) (named_more t names (first_gate (inputs t) + i) x s.named (omega (arith, s.names-long)) (p ∙ s.follows))

      pub gates-kept : 0 < get_or u v 0 → (from : ℕ) → from ≡ gates_from t
          → (d' : List ℕ) → d' ≡ sets d (from + 3 * kept) (encode_lines (renumbered_gate (decode t) i ∷ [])) → GatesTo t names₀ (set names v x) d₀ d' (kept + 1) (i + 1)
      unfolding encode_lines
      gates-kept l from q d' f =
          let k = sym (kept_read t u e i h) ∙ ap (λ y. ltb 0 (get_or u y 0)) (sym n) ∙ lt-ltb 0 (get_or u v 0) l in
          record {
            few = omega (arith, s.few);
            follows = omega (arith, s.follows, rank-kept (is_kept (decode t)) (first_gate (inputs t) + i) k, next);
            named = renamed;
            names-long = length-set names v x ∙ s.names-long;
            lines = appended-more _ d₀ (gates_from t) _ d (gates_from t + 3 * kept) s.lines (encode_lines (renumbered_gate (decode t) i ∷ [])) _ d' (gates_from t + 3 * (kept + 1))
                (append-kept (is_kept (decode t)) (first_gate (inputs t)) (gate_lines t) i _ (gate-next t i h) k)
                (f ∙ ap (λ m. sets d (m + 3 * kept) (encode_lines (renumbered_gate (decode t) i ∷ []))) q) (omega arith);
          }

      pub gates-gone : get_or u v 0 ≤ 0 → GatesTo t names₀ (set names v x) d₀ d kept (i + 1)
      gates-gone l =
          let k = sym (kept_read t u e i h) ∙ ap (λ y. ltb 0 (get_or u y 0)) (sym n) ∙ le-ltb 0 (get_or u v 0) l in
          record {
            few = omega (arith, s.few);
            follows = omega (arith, s.follows, rank-gone (is_kept (decode t)) (first_gate (inputs t) + i) k, next);
            named = renamed;
            names-long = length-set names v x ∙ s.names-long;
            lines = appended-same _ d₀ (gates_from t) _ d (gates_from t + 3 * kept) s.lines _ (append-gone (is_kept (decode t)) (first_gate (inputs t)) (gate_lines t) i _ (gate-next t i h) k);
          }

-- ---- the closing lines, up to output i

abbrev pub ClosingsTo : (t d₀ d : List ℕ) (from i : ℕ) → Type 0
ClosingsTo t d₀ d from i =
    Appended (encode_lines (map closing_line (trimmed_outputs (decode t)))) d₀ from
    (encode_lines (map closing_line (map (rank (is_kept (decode t))) (drop i (decode t).outputs)))) d (from + 3 * i)

module _ (t d₀ : List ℕ) (from : ℕ) where
  module _ (d : List ℕ) (i : ℕ) (s : ClosingsTo t d₀ d from i) where
    pub closings-all : outputs t ≤ i → d ≡ sets d₀ from (encode_lines (map closing_line (trimmed_outputs (decode t))))
    closings-all h =
        (appended-all _ d₀ from _ d (from + 3 * i) s (append-closings-end (rank (is_kept (decode t))) (decode t).outputs i (omega (arith, outputs-length t)))).0

    pub closings-more : i < outputs t → (names : List ℕ) → Named t names (refs t) → (o : ℕ) → o ≡ get_or (decode t).outputs i 0 → o < refs t
        → (d' : List ℕ) → d' ≡ sets d (from + 3 * i) (closing_kind ∷ get_or names o 0 ∷ 0 ∷ []) → ClosingsTo t d₀ d' from (i + 1)
    closings-more h names n o p b d' f =
        let kept = is_kept (decode t) in
        appended-more _ d₀ from _ d (from + 3 * i) s (closing_kind ∷ rank kept o ∷ 0 ∷ []) _ d' (from + 3 * (i + 1))
        (append-closing (rank kept) (decode t).outputs i o (output-next t i h ∙ ap (λ x. x ∷ drop (i + 1) (decode t).outputs) (sym p)))
        (f ∙ ap (λ x. sets d (from + 3 * i) (closing_kind ∷ x ∷ 0 ∷ [])) (n o b)) (omega arith)

-- ---- the whole table

-- the starting lines are all there
starts-taken : (t : List ℕ) → length (take (3 * starts t) (drop 3 t)) ≡ 3 * starts t
starts-taken t = length-take-le (3 * starts t) (drop 3 t) (run_fits (drop 3 t))

module _ (t : List ℕ) (from kept : ℕ) (q : from ≡ gates_from t) (k : kept ≡ length (trimmed_gates (decode t))) where
  -- where the closing lines of the trimmed table begin, there is room for them
  pub closings-room : (size : ℕ) → table_end t ≤ size → from + 3 * kept + 3 * outputs t ≤ size
  closings-room size h = omega (arith, keep-length (is_kept (decode t)) (first_gate (inputs t)) (gate_lines t), gates-length t)

  -- where the trimmed table ends
  pub trim_end : from + 3 * kept + 3 * outputs t ≡ length (trim_of t)
  trim_end =
      let gs = trimmed_gates (decode t) in
      let os = map closing_line (trimmed_outputs (decode t)) in
      omega (
        arith,
        ap length (trim-lines t),
        length-append (take (3 * starts t) (drop 3 t)) (encode_lines gs ++ encode_lines os),
        starts-taken t,
        length-append (encode_lines gs) (encode_lines os),
        encode-length gs,
        encode-length os,
        length-map (trimmed_outputs (decode t)) closing_line,
        length-map (decode t).outputs (rank (is_kept (decode t))),
        outputs-length t,
      )

  pub trim-stores : from ≤ length t → (d d1 d2 d3 d4 : List ℕ) → table_end t ≤ length d
      → d1 ≡ over (take from t) d
      → d2 ≡ sets d1 (gates_from t) (encode_lines (trimmed_gates (decode t)))
      → d3 ≡ sets d2 (from + 3 * kept) (encode_lines (map closing_line (trimmed_outputs (decode t))))
      → d4 ≡ set d3 1 kept → d4 ≡ over (trim_of t) d
  trim-stores fits d d1 d2 d3 d4 h e1 e2 e3 e4 =
      let gs = encode_lines (trimmed_gates (decode t)) in
      let os = encode_lines (map closing_line (trimmed_outputs (decode t))) in
      let long : length gs ≡ 3 * kept = omega (arith, encode-length (trimmed_gates (decode t))) in
      let both : d3 ≡ sets d1 from (gs ++ os) =
      e3 ∙ ap (λ x. sets x (from + 3 * kept) os) (e2 ∙ ap (λ m. sets d1 m gs) (sym q)) ∙ sets-append gs os d1 from (3 * kept) long in
      let lines : length (trim_of t) ≡ 3 + 3 * starts t + length (gs ++ os) =
      omega (arith, ap length (trim-lines t), length-append (take (3 * starts t) (drop 3 t)) (gs ++ os), starts-taken t) in
      copied-counted t d from (3 * starts t) q fits (gs ++ os)
      (omega (arith, lines, trim_end, closings-room (table_end t) (omega arith))) d1 d3 d4 kept e1 both e4
      ∙ ap (λ n. over (inputs t ∷ n ∷ outputs t ∷ (take (3 * starts t) (drop 3 t) ++ (gs ++ os))) d) k ∙ ap (λ l. over l d) (sym (trim-lines t))
