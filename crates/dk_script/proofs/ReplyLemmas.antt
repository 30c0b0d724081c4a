-- A reply is its head and its body.
use Rattle.std.proofs.Common.{◌≡◌, ℕ, List, [], ◌++◌, Option, refl, sym, ap, subst, ◌∙◌, append_assoc}
use Rattle.std.specs.Prelude.{codes, decimal}
use Rattle.std.proofs.lemmas.List.{append-nil}
use Rattle.std.proofs.KnownBytes.{Appends-trans}
use Rattle.std.specs.Io.KnownBytes.{Appends}
use Rattle.dk_io.specs.Sinks.{TakesFront}
use Rattle.dk_types.specs.declared.reply.Reply.{Reply}
use Rattle.dk_types.specs.declared.reply.Reply.TheVariants.{Created, Changed, Rows, Begun, Committed, Ended, Checkpointed, Refused}
use Rattle.dk_script.specs.ReplyTexts.{words_text, head_text, body_text}
use Rattle.dk_script.specs.Paging.{Paged}
use Rattle.dk_texts.specs.Texts.{session_text, reply_text}
use Rattle.dk_script.proofs.PageLemmas.{leaves_front}

reply_parts : (name : List ℕ) (reply : Reply)
    → reply_text name reply ≡ (words_text name reply ++ codes "\n") ++ body_text reply
reply_parts name (Created receipt) = sym (append-nil (codes "created\n"))
reply_parts name (Changed count receipt) = sym (append-nil (codes "changed " ++ decimal count ++ codes "\n"))
reply_parts name (Rows rows) = refl
reply_parts name (Begun start) = sym (append-nil (codes "begun " ++ decimal start ++ codes "\n"))
reply_parts name (Committed receipt) = sym (append-nil (codes "committed " ++ decimal receipt.number ++ codes "\n"))
reply_parts name Ended = sym (append-nil (codes "ended\n"))
reply_parts name (Checkpointed iteration) = sym (append-nil (codes "checkpointed " ++ decimal iteration ++ codes "\n"))
reply_parts name (Refused refusal) = sym (append-nil _)

pub session_parts : (session : ℕ) (name : List ℕ) (reply : Reply)
    → session_text session name reply ≡ head_text session name reply ++ body_text reply
session_parts session name reply =
    ap (λ xs. decimal session ++ codes " " ++ xs) (reply_parts name reply)
    ∙ (append_assoc (decimal session) (codes " ") ((words_text name reply ++ codes "\n") ++ body_text reply)
    ∙ sym (append_assoc (decimal session) (codes " " ++ (words_text name reply ++ codes "\n")) (body_text reply)))

-- the head was put, and then the body
pub session_put : (session : ℕ) (name : List ℕ) (reply : Reply) (before mid after : List ℕ)
    → mid ≡ before ++ head_text session name reply → after ≡ mid ++ body_text reply
    → after ≡ before ++ session_text session name reply
session_put session name reply before mid after head body =
    body ∙ (ap (λ xs. xs ++ body_text reply) head
    ∙ (append_assoc before (head_text session name reply) (body_text reply)
    ∙ ap (λ xs. before ++ xs) (sym (session_parts session name reply))))

-- the head was put on an empty page, and the body stands behind it
module _ (session : ℕ) (name : List ℕ) (reply : Reply) (before head : List ℕ) (empty : before ≡ [])
    (put : head ≡ before ++ head_text session name reply) where
  reply_whole : head ++ body_text reply ≡ session_text session name reply
  reply_whole =
      ap (λ xs. xs ++ body_text reply) (put ∙ ap (λ xs. xs ++ head_text session name reply) empty)
      ∙ sym (session_parts session name reply)

  pub session_more : (old new : Option (List ℕ)) → TakesFront old new (head ++ body_text reply)
      → TakesFront old new (session_text session name reply)
  session_more old new front = subst (TakesFront old new) reply_whole front

  -- the body was written, and the page went out
  module _ (old mid new : Option (List ℕ)) (page : List ℕ)
      (leaves : Paged old mid page [] (head ++ body_text reply))
    where
      -- all of it, or a front of it
      pub session_all : Appends mid new page → Appends old new (session_text session name reply)
      session_all sent =
          subst (Appends old new)
          (ap (λ xs. leaves.sent ++ xs) (sym (append-nil page)) ∙ (sym leaves.whole ∙ reply_whole))
          (Appends-trans old mid new leaves.sent page leaves.taken sent)

      pub session_front : TakesFront mid new page → TakesFront old new (session_text session name reply)
      session_front front = session_more old new (leaves_front old mid new page [] _ front leaves)
