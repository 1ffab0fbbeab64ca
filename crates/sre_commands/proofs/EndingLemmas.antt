-- What a source that tells its bytes brings about, where neither stream fails.
use Rattle.std.proofs.Common.{◌≡◌, ◌≢◌, ◌⊎◌, inl, inr, ℕ, ◌≤◌, ◌<◌, Bool, false, List, length, Option, Some, None, refl, sym, ap, subst, ◌∙◌, arith}
use Rattle.std.specs.Io.KnownBytes.{Consumes, IsAtEnd}
use Rattle.sre_code.specs.PlainTree.{PlainTree}
use Rattle.sre_code.specs.Spelling.{Spells, SpellsNothing}
use Rattle.sre_commands.specs.declared.ending.Ending.{Ending}
use Rattle.sre_commands.specs.declared.ending.Ending.TheVariants.{Answered, InvalidCode, NoCommand, NoRequest, SourceFailed, SinkFailed, NoMemory, TooLong}
use Rattle.sre_commands.specs.Commands.Sub.Request.{Request, IsRequest, text_of}
use Rattle.sre_commands.specs.Program.{IsNoRequest, Ends, Asks}
use Rattle.sre_commands.specs.Ending.{status_of, IsEither, writes}
use Rattle.sre_commands.specs.Streams.{Reading, Writing, ReadFailed, WriteFailed, ReadWhole, TookAtMost, TookMoreThan}
use Rattle.sre_commands.proofs.StreamLemmas.{Consumes-whole, Consumes-within}
use Rattle.sre_commands.proofs.RequestLemmas.{one_request}

-- what was read to the end is what was left
read_is : (left new : Option (List ℕ)) (bytes read : List ℕ) → left ≡ Some bytes → Consumes left new read → IsAtEnd new → bytes ≡ read
read_is None new bytes read told c end = absurd (cc told)
read_is (Some xs) new bytes read told c end = let same : bytes ≡ xs = cc told in same ∙ Consumes-whole xs new read c end

whole_is : (r : Reading) (bytes read : List ℕ) → r.left_old ≡ Some bytes → ReadWhole r read → bytes ≡ read
whole_is r bytes read told w = read_is r.left_old r.left_new bytes read told w.read w.at_end

-- the request that was read is the one that is left
request_is : (reading : Reading) (r q : Request) → IsRequest r → IsRequest q → reading.left_old ≡ Some (text_of r) → ReadWhole reading (text_of q) → q ≡ r
request_is reading r q h k told w = sym (one_request r q h k (whole_is reading (text_of r) (text_of q) told w))

-- no more is read than was left
not_more : (most : ℕ) (r : Reading) (bytes : List ℕ) → r.left_old ≡ Some bytes → length bytes ≤ most → TookMoreThan most r → ⊥
not_more most r bytes told le t = over r.left_old told t.read
  where
    over : (left : Option (List ℕ)) → left ≡ Some bytes → Consumes left r.left_new t.bytes → ⊥
    over None e c = cc e
    over (Some xs) e c =
        let same : bytes ≡ xs = cc e in
        let long = ap length same in
        let within = Consumes-within xs r.left_new t.bytes c in
        omega (arith, t.more, long, within)

-- the whole of it is no more than was taken
not_whole : (most : ℕ) (r : Reading) (bytes read : List ℕ) → r.left_old ≡ Some bytes → most < length bytes → TookAtMost most r → ReadWhole r read → ⊥
not_whole most r bytes read told more t w = over r.left_old r.left_new told t.read w.at_end
  where
    over : (left new : Option (List ℕ)) → left ≡ Some bytes → Consumes left new t.bytes → IsAtEnd new → ⊥
    over None new e c end = cc e
    over (Some xs) new e c end =
        let same : bytes ≡ xs = cc e in
        let long = ap length same in
        let all = ap length (Consumes-whole xs new t.bytes c end) in
        omega (arith, t.within, more, long, all)

spells_along : (r q : Request) (t : PlainTree) → q ≡ r → Spells q.words q.groups t → Spells r.words r.groups t
spells_along r q t e s = subst (λ (x : Request). Spells x.words x.groups t) e s

-- the bytes of a request are no bytes of none
is_request : (reading : Reading) (r : Request) → IsRequest r → reading.left_old ≡ Some (text_of r) → IsNoRequest reading → ⊥
is_request reading r h told m = m.none r h (sym (whole_is reading (text_of r) m.bytes told m.read))

pub good_request : (e : Ending) (arguments : List (List ℕ)) (most : ℕ) (reading : Reading) (writing : Writing) (r : Request) (t : PlainTree) → Ends e arguments most reading writing → IsRequest r → Spells r.words r.groups t → Asks arguments reading.left_old (text_of r) → length (text_of r) ≤ most
    → (ReadFailed reading → ⊥) → (WriteFailed writing → ⊥) → IsEither (status_of e) Answered NoMemory
good_request Answered arguments most rd wr r t ends is spells asks within read write = inl refl
good_request InvalidCode arguments most rd wr r t ends is spells asks within read write =
    let f = ends.2 in
    absurd (f.none t (spells_along f.request r t (sym (request_is rd r f.request is f.is_request asks.told f.read)) spells))
good_request NoCommand arguments most rd wr r t ends is spells asks within read write = absurd (ends.0 asks.command)
good_request NoRequest arguments most rd wr r t ends is spells asks within read write = absurd (is_request rd r is asks.told ends.2)
good_request SourceFailed arguments most rd wr r t ends is spells asks within read write = absurd (read ends.2)
good_request SinkFailed arguments most rd wr r t ends is spells asks within read write = absurd (write ends.2.failed)
good_request NoMemory arguments most rd wr r t ends is spells asks within read write = inr refl
good_request TooLong arguments most rd wr r t ends is spells asks within read write = absurd (not_more most rd (text_of r) asks.told within ends.1)

pub spells_none : (e : Ending) (arguments : List (List ℕ)) (most : ℕ) (reading : Reading) (writing : Writing) (r : Request) → Ends e arguments most reading writing → IsRequest r → SpellsNothing r.words r.groups → Asks arguments reading.left_old (text_of r) → length (text_of r) ≤ most
    → (ReadFailed reading → ⊥) → (WriteFailed writing → ⊥) → IsEither (status_of e) InvalidCode NoMemory
spells_none Answered arguments most rd wr r ends is none asks within read write =
    let a = ends.2 in
    absurd (none a.tree (spells_along r a.request a.tree (request_is rd r a.request is a.is_request asks.told a.read) a.spells))
spells_none InvalidCode arguments most rd wr r ends is none asks within read write = inl refl
spells_none NoCommand arguments most rd wr r ends is none asks within read write = absurd (ends.0 asks.command)
spells_none NoRequest arguments most rd wr r ends is none asks within read write = absurd (is_request rd r is asks.told ends.2)
spells_none SourceFailed arguments most rd wr r ends is none asks within read write = absurd (read ends.2)
spells_none SinkFailed arguments most rd wr r ends is none asks within read write = absurd (write ends.2.failed)
spells_none NoMemory arguments most rd wr r ends is none asks within read write = inr refl
spells_none TooLong arguments most rd wr r ends is none asks within read write = absurd (not_more most rd (text_of r) asks.told within ends.1)

pub text_of_none : (e : Ending) (arguments : List (List ℕ)) (most : ℕ) (reading : Reading) (writing : Writing) (bytes : List ℕ) → Ends e arguments most reading writing → ((r : Request) → IsRequest r → bytes ≢ text_of r) → Asks arguments reading.left_old bytes → length bytes ≤ most
    → (ReadFailed reading → ⊥) → IsEither (status_of e) NoRequest NoMemory
text_of_none Answered arguments most rd wr bytes ends none asks within read =
    let a = ends.2 in absurd (none a.request a.is_request (whole_is rd bytes (text_of a.request) asks.told a.read))
text_of_none InvalidCode arguments most rd wr bytes ends none asks within read =
    let a = ends.2 in absurd (none a.request a.is_request (whole_is rd bytes (text_of a.request) asks.told a.read))
text_of_none NoCommand arguments most rd wr bytes ends none asks within read = absurd (ends.0 asks.command)
text_of_none NoRequest arguments most rd wr bytes ends none asks within read = inl refl
text_of_none SourceFailed arguments most rd wr bytes ends none asks within read = absurd (read ends.2)
text_of_none SinkFailed arguments most rd wr bytes ends none asks within read =
    let a = ends.2 in absurd (none a.request a.is_request (whole_is rd bytes (text_of a.request) asks.told a.read))
text_of_none NoMemory arguments most rd wr bytes ends none asks within read = inr refl
text_of_none TooLong arguments most rd wr bytes ends none asks within read = absurd (not_more most rd bytes asks.told within ends.1)

pub too_many : (e : Ending) (arguments : List (List ℕ)) (most : ℕ) (reading : Reading) (writing : Writing) (bytes : List ℕ) → Ends e arguments most reading writing → Asks arguments reading.left_old bytes → most < length bytes
    → (ReadFailed reading → ⊥) → IsEither (status_of e) TooLong NoMemory
too_many Answered arguments most rd wr bytes ends asks more read = absurd (not_whole most rd bytes (text_of ends.2.request) asks.told more ends.1 ends.2.read)
too_many InvalidCode arguments most rd wr bytes ends asks more read = absurd (not_whole most rd bytes (text_of ends.2.request) asks.told more ends.1 ends.2.read)
too_many NoCommand arguments most rd wr bytes ends asks more read = absurd (ends.0 asks.command)
too_many NoRequest arguments most rd wr bytes ends asks more read = absurd (not_whole most rd bytes ends.2.bytes asks.told more ends.1 ends.2.read)
too_many SourceFailed arguments most rd wr bytes ends asks more read = absurd (read ends.2)
too_many SinkFailed arguments most rd wr bytes ends asks more read = absurd (not_whole most rd bytes (text_of ends.2.request) asks.told more ends.1 ends.2.read)
too_many NoMemory arguments most rd wr bytes ends asks more read = inr refl
too_many TooLong arguments most rd wr bytes ends asks more read = inl refl

-- an ending by its status
pub unwritten : (e : Ending) → status_of e ≢ 0 → status_of e ≢ 1 → status_of e ≢ 5 → writes e ≡ false
unwritten Answered a b c = absurd (a refl)
unwritten InvalidCode a b c = absurd (b refl)
unwritten NoCommand a b c = refl
unwritten NoRequest a b c = refl
unwritten SourceFailed a b c = refl
unwritten SinkFailed a b c = absurd (c refl)
unwritten NoMemory a b c = refl
unwritten TooLong a b c = refl

pub is_no_command : (e : Ending) → status_of e ≡ 2 → e ≡ NoCommand
is_no_command Answered h = absurd (omega (arith, h))
is_no_command InvalidCode h = absurd (omega (arith, h))
is_no_command NoCommand h = refl
is_no_command NoRequest h = absurd (omega (arith, h))
is_no_command SourceFailed h = absurd (omega (arith, h))
is_no_command SinkFailed h = absurd (omega (arith, h))
is_no_command NoMemory h = absurd (omega (arith, h))
is_no_command TooLong h = absurd (omega (arith, h))

pub within : (e : Ending) (arguments : List (List ℕ)) (most : ℕ) (reading : Reading) (writing : Writing) → Ends e arguments most reading writing → status_of e ≢ 7 → TookAtMost most reading
within Answered arguments most rd wr ends h = ends.1
within InvalidCode arguments most rd wr ends h = ends.1
within NoCommand arguments most rd wr ends h = ends.1
within NoRequest arguments most rd wr ends h = ends.1
within SourceFailed arguments most rd wr ends h = ends.1
within SinkFailed arguments most rd wr ends h = ends.1
within NoMemory arguments most rd wr ends h = ends.1
within TooLong arguments most rd wr ends h = absurd (h refl)
