mod TalkLaws
mod AskLaws
mod TurnLaws
