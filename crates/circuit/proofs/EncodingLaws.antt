-- Tables and the circuits that they say, there and back. Assumes nothing.
use mathlib.Core.Path.{◌≡◌, refl, sym, ap, ap₂, ◌∙◌}
use mathlib.Core.Bool.{true}
use mathlib.Core.List.{List, [], ◌∷◌, ◌++◌, map, append-nil, append_assoc}
use Prim.Native.Nat.{ℕ, zero, suc, ◌+◌, ◌*◌, ◌≤◌}
use native.Mathlib.Nat.{add-zero, not-suc-le-zero}
use native.Mathlib.Omega.{arith}
use lib.Dec.{eqb}
use lib.ListN.{length, take, drop, get_or, length-append, length-map, length-drop, take-append-drop}
use lib.Seq.{take_all, drop_at, drop-drop}
use borrow.Author.Tests.{eqb-true}
use Rattle.lists.proofs.Tests.{left-of, right_of}
use Rattle.circuit.specs.Circuit.{Gate, Start, Circuit, closing_kind, first_gate, line_count}
use Rattle.circuit.specs.Table.{inputs, gates, outputs, start_run, starts, gates_from, closings_from, table_end, lines_of, start_lines, gate_lines, closing_lines, start_of, start_line, reference, closing_line, decode, encode_lines, encode}
use Rattle.circuit.specs.Each.{EachGate}
use Rattle.circuit.specs.Refusal.{KnownKinds, is_closing}
use Rattle.circuit.specs.Theorems.{DecodeAfterEncode, EncodeAfterDecode}
use Rattle.circuit.proofs.TableLaws.{headed, gates-length, outputs-length}
use Rattle.circuit.proofs.EachLaws.{all-each}
use Rattle.circuit.proofs.StartRunLaws.{run_fits, run-lines, run-encode, run-gates}

pub encode-cons : (g : Gate) (gs : List Gate) → encode_lines (g ∷ gs) ≡ g.kind ∷ g.left ∷ g.right ∷ encode_lines gs
unfolding encode_lines
encode-cons g gs = refl

pub encode-append : (gs hs : List Gate) → encode_lines (gs ++ hs) ≡ encode_lines gs ++ encode_lines hs
unfolding encode_lines
encode-append [] hs = refl
encode-append (g ∷ gs) hs = ap (λ l. g.kind ∷ g.left ∷ g.right ∷ l) (encode-append gs hs)

pub encode-length : (gs : List Gate) → length (encode_lines gs) ≡ 3 * length gs
unfolding encode_lines
encode-length [] = refl
encode-length (g ∷ gs) = omega (arith, encode-length gs)

-- lines that were encoded are the lines of what begins so
pub lines-encode : (gs : List Gate) (rest : List ℕ) → lines_of (length gs) (encode_lines gs ++ rest) ≡ gs
unfolding lines_of encode_lines
lines-encode [] rest = refl
lines-encode (g ∷ gs) rest = ap (λ l. g ∷ l) (lines-encode gs rest)

pub encode-lines : (n : ℕ) (t : List ℕ) → 3 * n ≤ length t → encode_lines (lines_of n t) ≡ take (3 * n) t
unfolding lines_of encode_lines
encode-lines zero t h = refl
encode-lines (suc n) t h = ap (λ l. get_or t 0 0 ∷ get_or t 1 0 ∷ get_or t 2 0 ∷ l) (encode-lines n (drop 3 t) (omega (arith, length-drop 3 t))) ∙ sym (taken t (omega arith))
  where
    taken : (t : List ℕ) → 3 ≤ length t → take (3 * suc n) t ≡ get_or t 0 0 ∷ get_or t 1 0 ∷ get_or t 2 0 ∷ take (3 * n) (drop 3 t)
    taken [] h = absurd (not-suc-le-zero h)
    taken (a ∷ []) h = let z : ⊥ = omega arith in absurd z
    taken (a ∷ b ∷ []) h = let z : ⊥ = omega arith in absurd z
    taken (a ∷ b ∷ c ∷ t) h = let e : 3 * suc n ≡ suc (suc (suc (3 * n))) = omega arith in rw e

map-closing : (os : List ℕ) → map reference (map closing_line os) ≡ os
map-closing [] = refl
map-closing (o ∷ os) = ap (λ l. o ∷ l) (map-closing os)

closing-map : (n : ℕ) (ls : List Gate) → EachGate (λ m l. is_closing m l ≡ true) n ls → map closing_line (map reference ls) ≡ ls
closing-map n [] a = refl
closing-map n (l ∷ ls) a =
    let k = eqb-true l.kind closing_kind (left-of (eqb l.kind closing_kind) (eqb l.right 0) a.0) in
    let z = eqb-true l.right 0 (right_of (eqb l.kind closing_kind) (eqb l.right 0) a.0) in
    ap₂ ◌∷◌ (ap₂ (λ x y. record { kind = x; left = l.left; right = y }) (sym k) (sym z)) (closing-map (suc n) ls a.1)

-- a circuit by its parts
abbrev made : ℕ → List Start → List Gate → List ℕ → Circuit
made n ss gs os = record { inputs = n; starts = ss; gates = gs; outputs = os }

-- ---- starting lines

map-start : (ss : List Start) → map start_of (map start_line ss) ≡ ss
map-start [] = refl
map-start (s ∷ ss) = ap (λ l. s ∷ l) (map-start ss)

-- the starting lines of a circuit that was read are the table's, number for number: who writes the circuit anew copies them
pub encode-starts : (t : List ℕ) → encode_lines (map start_line (decode t).starts) ≡ take (3 * starts t) (drop 3 t)
encode-starts t = ap encode_lines (run-lines (drop 3 t)) ∙ encode-lines (starts t) (drop 3 t) (run_fits (drop 3 t))

-- ---- the table of a circuit, with anything behind it

module _ (c : Circuit) where
  pub encode-inputs : inputs (encode c) ≡ c.inputs
  unfolding encode
  encode-inputs = refl

  pub encode-gates : gates (encode c) ≡ length c.gates
  unfolding encode
  encode-gates = refl

  pub encode-outputs : outputs (encode c) ≡ length c.outputs
  unfolding encode
  encode-outputs = refl

  -- how long it is
  pub encode-lines-length : length (encode c) ≡ 3 * line_count c
  unfolding encode
  encode-lines-length =
      omega (
        arith,
        length-append (encode_lines (map start_line c.starts)) (encode_lines c.gates ++ encode_lines (map closing_line c.outputs)),
        length-append (encode_lines c.gates) (encode_lines (map closing_line c.outputs)),
        encode-length (map start_line c.starts),
        length-map c.starts start_line,
        encode-length c.gates,
        encode-length (map closing_line c.outputs),
        length-map c.outputs closing_line,
      )

  -- a run that ends with the starting lines
  module _ (rest : List ℕ) (e : start_run ((encode_lines c.gates ++ encode_lines (map closing_line c.outputs)) ++ rest) ≡ 0) where
    abbrev ss : List ℕ
    ss = encode_lines (map start_line c.starts)

    abbrev gs : List ℕ
    gs = encode_lines c.gates

    abbrev os : List ℕ
    os = encode_lines (map closing_line c.outputs)

    joined : drop 3 (encode c ++ rest) ≡ ss ++ ((gs ++ os) ++ rest)
    unfolding encode
    joined = append_assoc ss (gs ++ os) rest

    run-before : starts (encode c ++ rest) ≡ length c.starts
    run-before = ap start_run joined ∙ run-encode c.starts ((gs ++ os) ++ rest) ∙ ap (λ n. length c.starts + n) e ∙ add-zero (length c.starts)

    gates-behind : drop (gates_from (encode c ++ rest)) (encode c ++ rest) ≡ gs ++ (os ++ rest)
    gates-behind =
        sym (drop-drop (3 * starts (encode c ++ rest)) 3 (encode c ++ rest)) ∙ ap (drop (3 * starts (encode c ++ rest))) joined
        ∙ drop_at ss ((gs ++ os) ++ rest) (3 * starts (encode c ++ rest))
        (omega (arith, encode-length (map start_line c.starts), length-map c.starts start_line, run-before))
        ∙ append_assoc gs os rest

    start-lines-before : start_lines (encode c ++ rest) ≡ map start_line c.starts
    start-lines-before =
        ap₂ lines_of (run-before ∙ sym (length-map c.starts start_line)) joined ∙ lines-encode (map start_line c.starts) ((gs ++ os) ++ rest)

    gate-lines-before : gate_lines (encode c ++ rest) ≡ c.gates
    unfolding encode
    gate-lines-before = ap (lines_of (length c.gates)) gates-behind ∙ lines-encode c.gates (os ++ rest)

    closing-lines-before : closing_lines (encode c ++ rest) ≡ map closing_line c.outputs
    unfolding encode
    closing-lines-before =
        ap (lines_of (length c.outputs))
        (sym (drop-drop (3 * length c.gates) (gates_from (encode c ++ rest)) (encode c ++ rest)) ∙ ap (drop (3 * length c.gates)) gates-behind
        ∙ drop_at gs (os ++ rest) (3 * length c.gates) (encode-length c.gates))
        ∙ ap (λ k. lines_of k (os ++ rest)) (sym (length-map c.outputs closing_line)) ∙ lines-encode (map closing_line c.outputs) rest

    pub decode-before : decode (encode c ++ rest) ≡ c
    unfolding encode
    decode-before =
        ap (λ x. made c.inputs x (gate_lines (encode c ++ rest)) (map reference (closing_lines (encode c ++ rest))))
        (ap (map start_of) start-lines-before ∙ map-start c.starts)
        ∙ ap₂ (λ x y. made c.inputs c.starts x y) gate-lines-before (ap (map reference) closing-lines-before ∙ map-closing c.outputs)

  -- ---- and with nothing behind it

  started : starts (encode c) ≡ length c.starts + start_run (encode_lines c.gates ++ encode_lines (map closing_line c.outputs))
  unfolding encode
  started = run-encode c.starts (encode_lines c.gates ++ encode_lines (map closing_line c.outputs))

  -- where it is as long as it says, nothing but its starting lines is taken for one
  pub decode-long : length (encode c) ≡ table_end (encode c) → decode (encode c) ≡ c
  decode-long l =
      let behind = encode_lines c.gates ++ encode_lines (map closing_line c.outputs) in
      let e : start_run behind ≡ 0 = omega (arith, l, encode-lines-length, encode-gates, encode-outputs, started) in
      ap decode (sym (append-nil (encode c))) ∙ decode-before [] (ap start_run (append-nil behind) ∙ e)

  -- where gates are of known kinds

  module _ (k : KnownKinds c) where
    ends : start_run ((encode_lines c.gates ++ encode_lines (map closing_line c.outputs)) ++ []) ≡ 0
    ends = ap start_run (append-nil _) ∙ run-gates (first_gate c.inputs) c.gates c.outputs k

    alone : encode c ++ [] ≡ encode c
    alone = append-nil (encode c)

    pub encode-start-count : starts (encode c) ≡ length c.starts
    encode-start-count = ap starts (sym alone) ∙ run-before [] ends

    pub encode-gate-lines : gate_lines (encode c) ≡ c.gates
    encode-gate-lines = ap gate_lines (sym alone) ∙ gate-lines-before [] ends

    pub encode-closing-lines : closing_lines (encode c) ≡ map closing_line c.outputs
    encode-closing-lines = ap closing_lines (sym alone) ∙ closing-lines-before [] ends

    pub encode-long : length (encode c) ≡ table_end (encode c)
    encode-long = omega (arith, encode-lines-length, encode-start-count, encode-gates, encode-outputs)

    pub decode-encode : decode (encode c) ≡ c
    decode-encode = ap decode (sym alone) ∙ decode-before [] ends

pub decode-after-encode : DecodeAfterEncode
decode-after-encode = decode-encode

pub encode-after-decode : EncodeAfterDecode
unfolding encode
encode-after-decode t w =
    let s = starts t in
    let g = gates t in
    let o = outputs t in
    let lines : encode_lines (gate_lines t) ≡ take (3 * g) (drop (gates_from t) t) =
    encode-lines g (drop (gates_from t) t) (omega (arith, length-drop (gates_from t) t, w.sized)) in
    let closings : encode_lines (map closing_line (map reference (closing_lines t))) ≡ drop (3 * g) (drop (gates_from t) t) =
    ap encode_lines (closing-map 0 (closing_lines t) (all-each is_closing 0 (closing_lines t) w.closing-kinds))
    ∙ encode-lines o (drop (closings_from t) t) (omega (arith, length-drop (closings_from t) t, w.sized))
    ∙ take_all (3 * o) (drop (closings_from t) t) (omega (arith, length-drop (closings_from t) t, w.sized))
    ∙ sym (drop-drop (3 * g) (gates_from t) t) in
    let behind : encode_lines (gate_lines t) ++ encode_lines (map closing_line (map reference (closing_lines t))) ≡ drop (3 * s) (drop 3 t) =
    ap₂ ◌++◌ lines closings ∙ take-append-drop (3 * g) (drop (gates_from t) t) ∙ sym (drop-drop (3 * s) 3 t) in
    let all : encode_lines (map start_line (decode t).starts) ++ (encode_lines (gate_lines t) ++ encode_lines (map closing_line (map reference (closing_lines t)))) ≡ drop 3 t =
    ap₂ ◌++◌ (encode-starts t) behind ∙ take-append-drop (3 * s) (drop 3 t) in
    rw (gates-length t, outputs-length t, all) (headed t (omega (arith, w.sized)))
